-- Blocks that agree in a code's bytes have the same answers.
pub mod Agreement
