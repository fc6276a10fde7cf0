-- Marks as numbers in two lent arrays.
pub mod Results
