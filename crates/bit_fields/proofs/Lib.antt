-- The law of one bit, and a pattern held against its definition.
pub mod Bits
pub mod Examples
