-- The rest of a code's panel.
pub mod Rest
