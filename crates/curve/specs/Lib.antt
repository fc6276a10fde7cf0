-- What every curve shares.
pub mod Curve
