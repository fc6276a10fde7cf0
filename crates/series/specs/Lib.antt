-- A polynomial by Horner's rule, in binary32 and exactly, and the terms of a series.
pub mod Horner
pub mod Terms
