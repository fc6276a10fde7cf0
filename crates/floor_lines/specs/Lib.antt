-- The floor of one f32, worked as on paper.
pub mod Lines
