-- A curve byte for a wanted end.
pub mod Promises
