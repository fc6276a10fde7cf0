-- What is chosen at a number of turns, what is refused, and what is promised of the answers.
pub mod Choice
pub mod Answered
pub mod Examples
