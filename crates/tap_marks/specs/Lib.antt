-- The marks of an impulse train.
pub mod Marks
