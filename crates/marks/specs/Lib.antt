-- Marks, and how they are stored.
pub mod Marks
