-- Strips as numbers.
pub mod Results
