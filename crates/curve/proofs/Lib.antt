-- Positions lie from 0 to 1, and the clamp of a level that is near its exact one is drawn near it.
pub mod Positions
pub mod LevelInput
pub mod Clamped
