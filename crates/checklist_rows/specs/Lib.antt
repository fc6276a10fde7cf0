-- The trials of the empty program, and four rows of the checklist.
pub mod Empty
pub mod Rows
