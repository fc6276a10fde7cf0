-- What passes as a level.
pub mod Levels
