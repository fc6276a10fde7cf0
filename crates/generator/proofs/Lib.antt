-- How many marks there are; the definitions held against the Rust.
pub mod Counts
pub mod Examples
