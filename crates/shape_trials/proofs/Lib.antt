-- What the loops need: one position more.
pub mod Positions
