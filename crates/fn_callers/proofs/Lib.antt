mod Once
mod Between
mod Stands
mod Listed
pub mod Sent
