-- What is promised of the C functions.
pub mod Promises
