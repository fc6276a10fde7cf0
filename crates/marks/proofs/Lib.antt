-- Storing marks, how many there are of known turns, and the cycles held against the Rust.
pub mod Stored
pub mod Counts
pub mod Examples
