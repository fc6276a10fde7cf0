-- Whole numbers about the floor of a bit pattern, as text.
pub mod Number
