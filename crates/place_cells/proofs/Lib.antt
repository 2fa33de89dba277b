pub mod Stack
pub mod Writes
