-- What is promised of an answer follows from its equation.
pub mod Answered
