-- The envelope's height is near its exact height; its level as one formula.
pub mod DivideError
pub mod BendError
pub mod Ends
pub mod Blends
pub mod Distance
pub mod Defined
pub mod OneFormula
