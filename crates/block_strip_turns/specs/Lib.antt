-- What is promised of a strip at a number of turns.
pub mod Promises
