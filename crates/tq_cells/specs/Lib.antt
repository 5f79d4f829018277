pub mod Machine
pub mod Laws
pub mod Rule
pub mod Seen
pub mod Seats
