-- Every shape byte of LFO 1, as trials.
pub mod Shapes
