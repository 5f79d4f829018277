pub mod Logs
pub mod Numbers
pub mod Views
pub mod Keeps
pub mod Between
pub mod Looks
pub mod Lists
mod Examples
