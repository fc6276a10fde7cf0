-- A height rounded to a whole number, and held between two.
pub mod Nearest
pub mod Between
