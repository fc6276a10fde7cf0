-- The settings of a code.
pub mod Settings
