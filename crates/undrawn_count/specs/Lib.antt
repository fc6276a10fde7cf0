-- How many of the bytes that no curve draws differ.
pub mod Count
