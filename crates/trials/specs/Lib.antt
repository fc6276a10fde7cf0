-- A row of trials, and what one trial more makes of it.
pub mod Trials
pub mod Noted
