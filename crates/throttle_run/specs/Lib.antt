pub mod Faults
pub mod Grammar
pub mod Lines
pub mod Throttled
pub mod Work
