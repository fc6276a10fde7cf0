-- The cell of a segment.
pub mod Cells
