-- How far two curves are apart.
pub mod Largest
