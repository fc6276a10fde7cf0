-- What the loop over the codes needs.
pub mod Drawn
