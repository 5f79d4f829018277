pub mod Claimed
pub mod Complete
pub mod Counts
pub mod Preparing
pub mod SameText
pub mod DrillLine
pub mod NeverShort
