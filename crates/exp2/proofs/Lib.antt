-- 2 to the power x: what its code's proof needs, how near it is to its exact series, the slope of that, and the definitions held against outside numbers.
-- for the code
pub mod Scale
-- the theorems
pub mod Every
pub mod Exp2Error
pub mod Exp2Slope
pub mod ExactExp2
-- the definitions against outside numbers
pub mod Examples
pub mod ExamplesExact
