-- The block of an input, and its height.
pub mod Inputs
