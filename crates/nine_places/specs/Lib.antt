-- A number from 0 to 1 in nine places.
pub mod Places
