pub mod Counting
pub mod Kept
