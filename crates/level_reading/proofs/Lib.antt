-- The bits of a rounded fraction; the laws of decimal digits, of digits doubled, of ties and of binary places; a copy;
-- a level by its cases; examples.
pub mod RoundBits
pub mod Digits
pub mod Doubling
pub mod Ties
pub mod Places
pub mod Copies
pub mod Levels
pub mod Examples
