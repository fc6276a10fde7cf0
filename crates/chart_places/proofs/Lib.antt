-- Places held against their definition.
pub mod Examples
