-- The rounded product by the float's quanta, and by its bits; the comparison by its digits.
pub mod Product
pub mod Bits
pub mod Least
pub mod Cases
pub mod NearestExamples
pub mod Marks
pub mod Heights
pub mod BetweenExamples
