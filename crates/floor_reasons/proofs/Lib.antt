-- The reasons by the code's tests.
pub mod Reasons
