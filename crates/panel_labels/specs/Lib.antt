-- The words below a panel's title.
pub mod Labels
