-- Where a loop over the taps ends; marks held against the Rust.
pub mod AllTaps
pub mod Examples
