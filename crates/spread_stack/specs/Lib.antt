pub mod Stack
pub mod Run
