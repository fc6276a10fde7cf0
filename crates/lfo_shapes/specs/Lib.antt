-- The LFO's shapes, in binary32 and exactly.
pub mod Formula
pub mod Exact
