-- The crate's definitions.
pub mod Agreement
