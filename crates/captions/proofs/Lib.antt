-- The segment of a position, writing captions, their laws, which of them changed, and examples.
pub mod Segments
pub mod Writing
pub mod Laws
pub mod Changed
pub mod Examples
