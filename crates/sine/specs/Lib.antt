-- The sine of a number of turns: in binary32, and the exact series that it stands for.
pub mod Formula
pub mod Exact
