-- The slew walk, in binary32 and exactly, a walk on its way, and its steps.
pub mod Formula
pub mod Reached
pub mod Exact
pub mod Steps
