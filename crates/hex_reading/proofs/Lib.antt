-- What the loop needs, and examples.
pub mod Reading
pub mod Examples
