pub mod Views
pub mod Calls
pub mod Standing
pub mod Polls
pub mod Transfers
pub mod Moves
pub mod Moving
