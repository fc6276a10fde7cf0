-- The block that a seed stands for.
pub mod Drawn
