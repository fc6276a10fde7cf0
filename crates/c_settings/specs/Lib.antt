-- What a lent array holds of the settings.
pub mod Results
