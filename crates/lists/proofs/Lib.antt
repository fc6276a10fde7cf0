-- The laws of a written slice, of an element and of a table of values; a test over all numbers below a bound, and over all rows of a table; a match that has passed some numbers.
pub mod Written
pub mod Elements
pub mod Every
pub mod Rows
pub mod Passed
