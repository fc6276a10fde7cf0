-- When there are gates, the bars of every gate time, and gates and bars held against the Rust.
pub mod OpenGates
pub mod EveryTime
pub mod Examples
