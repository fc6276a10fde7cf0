-- The case by the field, and examples.
pub mod Cases
pub mod Examples
