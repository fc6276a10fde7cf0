-- The bits of a NaN, and the laws of agreement.
pub mod NanBits
pub mod Agreement
