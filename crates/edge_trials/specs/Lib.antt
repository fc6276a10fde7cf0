-- Heights at the edges, and positions beyond them.
pub mod Edges
