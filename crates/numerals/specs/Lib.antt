-- Numbers as text.
pub mod Spelled
