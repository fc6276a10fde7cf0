-- A row held against its definition.
pub mod Examples
