pub mod Tasks
pub mod Steps
pub mod Named
