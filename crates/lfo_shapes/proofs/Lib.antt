-- The LFO's shapes are near the exact ones: an index's sample and a cycle's, what is exact and what is rounded, and the bound.
pub mod Index
pub mod Scaling
pub mod Cycles
pub mod Earlier
pub mod Wrapped
pub mod Shapes
pub mod Blend
pub mod Mix
pub mod Bounded
pub mod DrawnPhase
pub mod Wave
pub mod ShapeError
