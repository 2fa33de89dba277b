pub mod Rows
pub mod Kept
pub mod Work
pub mod Order
