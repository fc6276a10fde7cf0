-- The bars of a panel.
pub mod Bars
