-- The bytes that no curve draws.
pub mod Undrawn
