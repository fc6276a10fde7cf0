-- The floor: what its code's proofs need, its laws, the phases for which `fract` is exact, and the definitions held against outside numbers.
-- for the code
pub mod FloorExact
pub mod Patterns
pub mod ByExponent
-- the theorems
pub mod FloorLaws
pub mod Turned
pub mod Phase
-- the definitions against outside numbers
pub mod Examples
pub mod ExamplesExact
