pub mod Machine
pub mod Trace
pub mod Law
pub mod Found
pub mod Aggregator
pub mod Inside
