-- The shape of a code.
pub mod Shapes
