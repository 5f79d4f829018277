pub mod Faults
pub mod Grammar
pub mod Laws
pub mod Order
pub mod Script
pub mod Sound
pub mod WholeFaults
