-- Shapes that are not walked, and that every shape at a number of turns goes forward.
pub mod Unwalked
pub mod Turned
