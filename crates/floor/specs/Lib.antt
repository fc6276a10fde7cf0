-- The floor and what it leaves, in binary32; the latter exactly; the floor by the exponent, as on paper.
pub mod Formula
pub mod Exact
pub mod Exponent
