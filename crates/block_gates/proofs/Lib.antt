-- What is refused, and what is promised of gates and bars follows from their equations.
pub mod Refused
