-- A curve byte as numbers.
pub mod Results
