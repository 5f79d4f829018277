pub mod Growing
pub mod Shared
pub mod Well
