-- A bit pattern as text.
pub mod Pattern
