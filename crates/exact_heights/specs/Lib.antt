-- The row of the list of exact heights.
pub mod Exact
