pub mod Drawing
pub mod Faults
pub mod Names
pub mod TenantLines
