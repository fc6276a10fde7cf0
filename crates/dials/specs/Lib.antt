-- The lines of a panel that say what to dial in.
pub mod Dials
