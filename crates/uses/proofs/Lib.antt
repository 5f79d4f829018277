pub mod Books
pub mod Counts
pub mod Totals
pub mod Handed
