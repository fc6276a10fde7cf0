-- The captions below an envelope's frame.
pub mod Captions
