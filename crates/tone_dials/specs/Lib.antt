-- The dials of the low-pass filter and of oscillator 1.
pub mod Tones
