-- What is promised of the height of every shape and of every code, at six turns and at eight; heights that are known beforehand; what has no value gives none.
pub mod Promised
pub mod EveryShape
pub mod EveryCode
pub mod EveryTurns
pub mod KnownHeights
pub mod NoValue
