-- What differs between the bytes of two blocks.
pub mod Changes
