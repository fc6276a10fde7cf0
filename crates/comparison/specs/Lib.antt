-- What differs between two programs.
pub mod Differences
