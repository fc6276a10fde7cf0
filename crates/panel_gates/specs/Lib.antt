-- The gates of a panel.
pub mod GateText
