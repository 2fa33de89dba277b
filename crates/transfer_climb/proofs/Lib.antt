pub mod Levels
pub mod Rows
pub mod Parts
pub mod Steps
pub mod Cells
