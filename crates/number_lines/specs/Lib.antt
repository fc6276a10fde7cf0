-- The lines of a list of numbers.
pub mod Lines
