-- Examples.
pub mod Examples
