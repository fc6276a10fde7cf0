-- A mark on a panel.
pub mod Rules
