-- The CRC-32 of a list of bytes.
pub mod Crc32
