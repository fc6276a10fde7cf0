-- What the settings satisfy, and that those built here do.
pub mod Ranges
pub mod Bytes
pub mod Given
pub mod Examples
