-- The page: its head, its panels and its foot.
pub mod Page
