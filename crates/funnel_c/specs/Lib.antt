pub mod Held
pub mod Token
pub mod Slots
pub mod Told
pub mod Opening
