-- The rows of the page of all parameters.
pub mod Rows
