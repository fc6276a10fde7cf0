-- The definitions, computed.
pub mod Examples
