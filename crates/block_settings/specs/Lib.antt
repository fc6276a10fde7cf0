-- The settings of a block and a code.
pub mod Answers
