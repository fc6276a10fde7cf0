-- The paths of bars.
pub mod Paths
