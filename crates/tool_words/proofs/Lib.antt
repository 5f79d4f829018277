pub mod Readings
pub mod Simple
pub mod ByVerb
