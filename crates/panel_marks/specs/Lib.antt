-- The marks on a panel.
pub mod Marks
