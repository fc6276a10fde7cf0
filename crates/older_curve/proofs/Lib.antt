-- What the comparison of two curves needs.
pub mod Points
