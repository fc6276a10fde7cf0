-- Gates and bars as numbers in two lent arrays.
pub mod Results
