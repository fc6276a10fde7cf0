-- The names of the parameters.
pub mod ParameterNames
