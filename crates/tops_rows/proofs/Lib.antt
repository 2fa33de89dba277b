pub mod Passing
pub mod Kept
