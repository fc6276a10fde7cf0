-- Why an input is refused.
pub mod Refusals
