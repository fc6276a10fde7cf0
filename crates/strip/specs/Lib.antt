-- Strips of heights.
pub mod Strip
