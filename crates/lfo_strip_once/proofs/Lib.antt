-- The phases of a strip go up; a walk goes on from an earlier phase; the loop over the samples; the laws of the steps, and their numbers.
pub mod Phases
pub mod LaterPhase
pub mod AlongStrip
pub mod Laws
