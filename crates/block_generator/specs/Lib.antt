-- The rest level, the scale and the anchor of a block and a code.
pub mod Answers
