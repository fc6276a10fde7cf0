-- How near the oscillator is to its exact height.
pub mod WaveError
pub mod Mean
pub mod Distance
