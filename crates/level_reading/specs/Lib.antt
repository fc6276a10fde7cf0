-- A level read from its decimals, and the digits that it is worked with.
pub mod Digits
pub mod Reading
