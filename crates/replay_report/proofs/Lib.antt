pub mod Answered
pub mod Lines
pub mod Segments
pub mod Totals
