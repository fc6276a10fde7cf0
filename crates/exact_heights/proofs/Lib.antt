-- What the loop over the list's bytes needs.
pub mod Bytes
