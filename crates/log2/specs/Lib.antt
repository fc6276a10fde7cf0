-- The logarithm to base 2: in binary32, and the exact series that it stands for.
pub mod Formula
pub mod Exact
