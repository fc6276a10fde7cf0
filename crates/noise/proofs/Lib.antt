-- The range of the scatter, and how near the noise is to its exact height.
pub mod Scatter
pub mod Scaled
pub mod Distance
