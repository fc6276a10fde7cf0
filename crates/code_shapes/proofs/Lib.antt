-- The bytes that decide what a code draws; settings that are known beforehand.
pub mod Agreement
pub mod Examples
