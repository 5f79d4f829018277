pub mod Allowed
pub mod HeaderFaults
pub mod OneByOne
pub mod Refused
pub mod SoundLines
pub mod Spelled
pub mod Whole
pub mod WholeRefused
