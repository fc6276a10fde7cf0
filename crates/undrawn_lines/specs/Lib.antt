-- The lines of the bytes that no curve draws.
pub mod Lines
