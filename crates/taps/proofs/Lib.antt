-- How many taps are used; which positions a tap reaches; the maximum of two floats, and how one comparison finds it; where the height of an impulse train lies, and how near it is to its exact height; the floats of an array, by which what is promised of a height follows from its equation; and trains held against the Rust.
pub mod UsedTaps
pub mod Width
pub mod Maximum
pub mod Larger
pub mod OneComparison
pub mod Raised
pub mod Ranges
pub mod OneTap
pub mod EveryTaps
pub mod Spike
pub mod TapsError
pub mod Examples
pub mod Held
pub mod Answered
