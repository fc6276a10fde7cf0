-- 2 to the power x: in binary32, and the exact series that it stands for.
pub mod Formula
pub mod Exact
