pub mod Segments
pub mod Replay
pub mod Claim
pub mod Work
pub mod Ready
pub mod Course
