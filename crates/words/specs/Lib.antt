-- One of some words.
pub mod Words
