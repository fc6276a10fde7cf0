-- What is promised of a strip follows from its equations.
pub mod Answered
pub mod Unfit
