-- What is refused, what a known code chooses and which bytes decide it, what is promised of a height; refusals that are known beforehand.
pub mod Settled
pub mod Refused
pub mod Agreement
pub mod KnownCode
pub mod Examples
pub mod Answered
