-- Bytes as text.
pub mod Escaped
