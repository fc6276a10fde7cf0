-- The logarithm to base 2: what its code's proof needs, how near it is to its exact series, the slope of that, and the definitions held against outside numbers.
-- for the code
pub mod Logarithm
-- the theorems
pub mod Mantissa
pub mod Log2Error
pub mod Log2Slope
pub mod ExactLog2
-- the definitions against outside numbers
pub mod Examples
pub mod ExamplesExact
