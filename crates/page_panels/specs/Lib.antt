-- The panels of the page.
pub mod Panels
