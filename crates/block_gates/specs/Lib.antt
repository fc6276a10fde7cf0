-- The gates and bars of a block, and what is promised of them.
pub mod Answers
pub mod Promises
