pub mod Branches
pub mod Levels
