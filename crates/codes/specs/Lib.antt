-- The codes.
pub mod Codes
