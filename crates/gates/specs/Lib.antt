-- The arpeggiator's gates, and their bars.
pub mod Gates
