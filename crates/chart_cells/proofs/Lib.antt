-- The six places of every bend.
pub mod Quarters
pub mod Places
