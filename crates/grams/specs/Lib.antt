pub mod Grams
pub mod Steps
