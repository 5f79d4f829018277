pub mod Handed
pub mod Outcome
pub mod Accounts
pub mod Telling
