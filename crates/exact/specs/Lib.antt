-- Exact fractions, the value of a float as one, how near two of them are, and the rounded operations of binary32.
pub mod Fraction
pub mod Value
pub mod Binary32
