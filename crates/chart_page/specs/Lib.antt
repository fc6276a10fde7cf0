-- The page of bends.
pub mod ChartPage
