pub mod Callers
pub mod Standing
pub mod Opening
pub mod Told
pub mod Ways
