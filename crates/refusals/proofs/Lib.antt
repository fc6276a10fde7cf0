-- What a `?` hands on.
pub mod Passed
