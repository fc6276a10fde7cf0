-- What stands in a row of the page of all parameters.
pub mod Cells
