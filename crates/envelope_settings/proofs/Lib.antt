-- What the settings that bytes give an envelope satisfy.
pub mod Sustain
pub mod Ends
pub mod Given
pub mod Examples
