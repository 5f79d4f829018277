pub mod Views
pub mod Claims
pub mod Calls
pub mod Faults
pub mod Opened
pub mod Closed
pub mod Rooms
