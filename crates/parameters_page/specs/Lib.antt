-- The page of all parameters.
pub mod ParametersPage
