-- Taps from two lent arrays, and their marks.
pub mod Results
