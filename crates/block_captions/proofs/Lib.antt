-- What is promised of captions follows from their equations.
pub mod Answered
