-- The settings of an envelope, from bytes.
pub mod Formula
