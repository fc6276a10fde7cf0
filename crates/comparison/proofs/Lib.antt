-- What the loops need; blocks whose bytes agree; the largest difference of two shapes' generators.
pub mod SameBytes
pub mod Steps
pub mod Known
