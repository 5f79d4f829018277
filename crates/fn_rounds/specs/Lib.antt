pub mod Views
pub mod InOrder
pub mod Lanes
pub mod Standing
pub mod Rounds
pub mod Script
pub mod Dealing
