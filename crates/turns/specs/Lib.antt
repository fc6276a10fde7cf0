-- Numbers of turns, and shapes at them.
pub mod Turns
