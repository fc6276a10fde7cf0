-- What a block, a code and a number of turns choose, and what is promised of the answers.
pub mod Choice
pub mod Promises
