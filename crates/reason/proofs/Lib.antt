pub mod Meaning
pub mod Outcome
