-- The height of an LFO, in binary32 and exactly.
pub mod Formula
pub mod Exact
