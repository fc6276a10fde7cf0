-- The dials of the envelopes and LFOs.
pub mod Modulators
