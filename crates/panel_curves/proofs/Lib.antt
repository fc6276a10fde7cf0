-- What a strip holds before it is filled.
pub mod Blank
