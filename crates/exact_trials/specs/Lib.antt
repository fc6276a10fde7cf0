-- The trial of a line of the list of exact heights.
pub mod LineTrials
