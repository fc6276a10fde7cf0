-- The head of a comparison.
pub mod Compared
