-- What is promised of a code's height.
pub mod Promises
