-- What the loops need; examples.
pub mod ByteLines
pub mod Examples
