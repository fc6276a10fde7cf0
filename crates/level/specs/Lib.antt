-- What a level is.
pub mod Level
