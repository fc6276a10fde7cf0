-- The heights of shapes.
pub mod Heights
