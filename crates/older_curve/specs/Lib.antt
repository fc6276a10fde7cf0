-- The curve of an older program.
pub mod Older
