-- The program's name.
pub mod ProgramName
