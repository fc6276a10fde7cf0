-- The curve of a panel, as a line.
pub mod Line
