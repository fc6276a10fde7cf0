-- Where the name ends.
pub mod NameEnd
