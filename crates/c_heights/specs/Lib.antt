-- Heights as numbers.
pub mod Results
