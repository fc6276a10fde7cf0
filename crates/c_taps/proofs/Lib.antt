-- What is returned for taps, or for marks, is returned for those equal to them.
pub mod Same
