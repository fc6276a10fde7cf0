-- The small functions of floats, in binary32.
pub mod Formulas
