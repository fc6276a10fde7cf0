-- The laws of digits, that a decimal reads back as its number, and examples.
pub mod Digits
pub mod Reading
pub mod Examples
