-- What a strip answers and holds afterwards, and what is promised of it.
pub mod Strips
pub mod Promises
