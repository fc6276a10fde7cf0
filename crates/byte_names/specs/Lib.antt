-- The names of bytes.
pub mod ByteNames
