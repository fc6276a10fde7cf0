-- Why a float formula is near its exact value: rounding and the operations, exact operations, relative errors, and an error analyser
-- with its soundness theorem.
pub mod Rounding
pub mod Operations
pub mod Quanta
pub mod Comparison
pub mod Monotone
pub mod RoundingTheorems
pub mod Sterbenz
pub mod Fract
pub mod Relative
pub mod Signs
pub mod UnitRoundoff
pub mod Propagation
pub mod Analyser
pub mod Clamp
pub mod StepSums
pub mod StepQuotients
pub mod StepLeaves
pub mod Soundness
pub mod Bounds
pub mod Inputs
pub mod FloatBounds
pub mod OwnRange
pub mod Demonstration
