-- Where the rows of the page of all parameters stand.
pub mod Places
