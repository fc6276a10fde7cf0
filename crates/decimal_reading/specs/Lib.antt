-- A number read from its digits.
pub mod Reading
