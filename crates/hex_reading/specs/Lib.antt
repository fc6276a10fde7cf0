-- A bit pattern read from its digits.
pub mod Reading
