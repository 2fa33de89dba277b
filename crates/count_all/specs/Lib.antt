pub mod Counts
pub mod Kept
pub mod Rows
