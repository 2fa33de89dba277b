pub mod Meaning
pub mod Column
pub mod Named
pub mod Ordered
pub mod Work
