-- Settings as numbers.
pub mod Numbers
