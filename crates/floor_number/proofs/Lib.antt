-- The exponent by the field, the floor as a whole number, and examples.
pub mod Exponents
pub mod Numbers
pub mod Examples
