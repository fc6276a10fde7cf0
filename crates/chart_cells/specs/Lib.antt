-- A cell of the chart of bends.
pub mod Cells
