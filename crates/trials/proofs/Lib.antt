-- A row of one trial more, and what it means that a row passes.
pub mod Rows
pub mod Passing
