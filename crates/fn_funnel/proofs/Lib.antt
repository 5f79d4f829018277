pub mod Polls
pub mod Straight
pub mod Calls
pub mod Claims
