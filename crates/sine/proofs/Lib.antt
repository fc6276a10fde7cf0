-- The sine: the folds that lose nothing, how near it is to its exact series, the range of both, and the definitions held against outside numbers.
pub mod Fold
pub mod SineError
pub mod SinePolynomial
pub mod SineEnclosure
-- the definitions against outside numbers
pub mod Examples
pub mod ExamplesExact
