-- Two blocks with the same answers.
pub mod Agreement
