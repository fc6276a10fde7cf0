-- How a dial's line begins and ends.
pub mod Start
