pub mod Steps
pub mod Rows
pub mod Chain
pub mod Told
pub mod Once
pub mod Search
pub mod Labels
