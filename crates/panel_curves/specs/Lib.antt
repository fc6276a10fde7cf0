-- The curve of a panel.
pub mod Curves
