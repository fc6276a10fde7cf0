-- The turns of the loop that puts an input's bytes; the definitions, computed.
pub mod Placed
pub mod Examples
