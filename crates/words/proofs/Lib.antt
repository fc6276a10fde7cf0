-- The laws of words in a row.
pub mod Words
