-- A text put byte by byte, and examples.
pub mod EachByte
pub mod Examples
