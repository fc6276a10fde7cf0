-- Slew at 1 and at 255, as trials.
pub mod Slew
