pub mod Named
pub mod Room
pub mod Search
pub mod Queue
