pub mod Finding
pub mod Placing
pub mod Searches
pub mod Turns
pub mod Runs
pub mod Queues
