-- Generators, and what they say of themselves.
pub mod Generator
