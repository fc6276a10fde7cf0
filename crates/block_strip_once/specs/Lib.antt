-- What a strip with one walk along it answers, and what is promised of it.
pub mod Strips
pub mod Promises
