-- A strip as text.
pub mod Rows
