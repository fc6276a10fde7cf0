-- Fractions: what is defined, their order and distance, the laws of their operations, and the floor.
pub mod Close
pub mod Parts
pub mod Defined
pub mod Order
pub mod Inequality
pub mod Lipschitz
pub mod Floor
pub mod FloorUnique
