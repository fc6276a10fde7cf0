-- What is promised of a strip with one walk along it follows from its equations.
pub mod Answered
