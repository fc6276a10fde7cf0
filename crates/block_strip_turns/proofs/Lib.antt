-- What is promised of a strip at a number of turns follows from its equations.
pub mod Answered
