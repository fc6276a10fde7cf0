-- The frame of a panel.
pub mod Frame
