pub mod Held
pub mod Turns
pub mod Kept
pub mod Outcomes
