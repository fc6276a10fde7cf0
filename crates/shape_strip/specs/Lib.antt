-- Shapes that one walk can serve.
pub mod Forward
