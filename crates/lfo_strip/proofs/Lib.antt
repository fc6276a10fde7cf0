-- An LFO's height by its slew.
pub mod Slew
