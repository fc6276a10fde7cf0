-- The laws of writing.
pub mod Writing
pub mod Whole
pub mod Examples
