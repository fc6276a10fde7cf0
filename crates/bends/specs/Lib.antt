-- The bends of the curve bytes, and how good they are.
pub mod Formula
