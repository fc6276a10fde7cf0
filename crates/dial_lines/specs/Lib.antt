-- The lines that say what to dial in.
pub mod Lines
