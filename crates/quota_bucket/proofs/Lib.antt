pub mod Additions
pub mod Taking
pub mod Peeking
pub mod Dealt
pub mod Gathered
pub mod Standing
pub mod Ready
