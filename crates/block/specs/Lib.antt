-- What is refused, and what is promised of a height.
pub mod Refusals
pub mod Promises
