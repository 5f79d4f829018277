pub mod Bounds
pub mod Counted
pub mod Cuts
pub mod Heights
