-- What follows the codes' panels.
pub mod End
