pub mod Headed
pub mod Marked
pub mod Numbered
