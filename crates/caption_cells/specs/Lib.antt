-- The cells of an envelope's captions.
pub mod Cells
