-- The titles of panels, the names of segments, and what a byte stands for.
pub mod Titles
pub mod Notes
