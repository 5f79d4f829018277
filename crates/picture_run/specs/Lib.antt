pub mod Asked
pub mod Ended
pub mod Outcome
pub mod Streams
pub mod Telling
pub mod Texts
