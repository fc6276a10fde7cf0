-- The small functions of floats: what their code's proofs need, with the laws of whole numbers and bit patterns that the crates above cite too, and the definitions held against outside numbers.
pub mod Nan
pub mod Size
pub mod Whole
pub mod Bits
pub mod Digits
-- the definitions against outside numbers
pub mod Rows
pub mod Examples
