pub mod Lines
pub mod Relay
pub mod Claim
pub mod Laws
pub mod Work
pub mod Filling
