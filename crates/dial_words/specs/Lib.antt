-- The lines whose note is a word.
pub mod Words
