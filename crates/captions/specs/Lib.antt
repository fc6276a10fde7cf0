-- Captions of an envelope's samples, and which of them changed.
pub mod Captions
pub mod Changes
