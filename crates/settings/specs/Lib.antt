-- The settings, from bytes.
pub mod Settings
