pub mod Filling
pub mod Outcome
