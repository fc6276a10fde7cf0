-- The rest level, the scale and the anchor as numbers.
pub mod Results
