-- The floor by rounding.
pub mod Rounding
