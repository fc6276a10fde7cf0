-- What the loop needs; where none is counted none differs.
pub mod ByteCount
pub mod Counted
