-- Which bytes are drawn.
pub mod Drawn
