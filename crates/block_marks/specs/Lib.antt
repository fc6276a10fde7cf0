-- The marks of a block and a code.
pub mod Answers
