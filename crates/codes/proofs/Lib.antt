-- The codes' numbers.
pub mod Numbers
