-- A curve byte for a wanted end, as text.
pub mod Lines
