-- A slice that is written from its start, a list of a fixed length, and a table of a function's values.
pub mod Written
pub mod Padded
pub mod Listed
