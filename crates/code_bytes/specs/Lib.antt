-- The bytes that each code reads.
pub mod Bytes
