-- How near the fade is to its exact height.
pub mod Rise
pub mod Distance
