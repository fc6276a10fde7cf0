-- The distance of two levels, exactly.
pub mod LessPower
pub mod Above
pub mod Distance
pub mod Laws
pub mod Examples
