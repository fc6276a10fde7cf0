-- An LFO's height: its steps, its distance, and heights held against the Rust.
pub mod Steps
pub mod LfoDrawn
pub mod Examples
