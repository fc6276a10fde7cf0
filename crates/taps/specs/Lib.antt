-- An impulse train: its formula, its exact height, and what is promised of its height.
pub mod Formula
pub mod Exact
pub mod Promises
