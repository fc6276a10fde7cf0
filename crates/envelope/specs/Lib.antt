-- The envelope, in binary32 and exactly.
pub mod Formula
pub mod Exact
