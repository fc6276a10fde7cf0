-- What a page is of.
pub mod Provenance
