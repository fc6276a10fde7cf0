-- The steps of one walk along a strip.
pub mod Once
