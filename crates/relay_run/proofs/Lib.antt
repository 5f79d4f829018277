pub mod Strides
pub mod Moving
pub mod Together
pub mod Written
pub mod Handing
pub mod Splitting
pub mod Ordered
