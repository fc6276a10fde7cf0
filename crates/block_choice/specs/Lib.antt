-- What is promised of an answer that follows from the choice.
pub mod Promises
