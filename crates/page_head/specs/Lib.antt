-- The head of a sheet and the foot of a page.
pub mod Head
