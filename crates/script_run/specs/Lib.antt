pub mod Lines
pub mod Play
pub mod Answered
pub mod Doing
pub mod Replies
pub mod Trial
pub mod Slots
