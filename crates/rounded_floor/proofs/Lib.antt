-- What the code's proofs need, and the theorem: the two floors are one.
pub mod NearWhole
pub mod ByRounding
