-- Which lengths fit, the laws of a strip, which shapes take no steps, filling one, where its samples lie, each of them, and examples.
pub mod Lengths
pub mod Laws
pub mod Stepless
pub mod Filling
pub mod SamplePositions
pub mod Samples
pub mod Examples
