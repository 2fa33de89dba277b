pub mod Summing
pub mod Meaning
