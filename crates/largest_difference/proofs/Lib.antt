-- What the loop needs; that the largest difference is the largest; that of curves which agree.
pub mod Steps
pub mod Laws
pub mod Agreeing
