-- Captions never go back, the samples of a segment, and the edges of its cell.
pub mod Rise
pub mod Stretches
pub mod Edges
