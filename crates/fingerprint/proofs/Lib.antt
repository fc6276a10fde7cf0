-- The bits of an exclusive or; that one byte that differs is told; the published check values.
pub mod Bits
pub mod OneByte
pub mod Examples
