-- Where the cells of the chart of bends stand.
pub mod Places
