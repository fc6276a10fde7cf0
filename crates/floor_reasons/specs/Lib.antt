-- Why the floor is what it is.
pub mod Reasons
