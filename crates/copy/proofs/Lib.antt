pub mod Judged
pub mod Makes
pub mod Prefixed
pub mod Bytes
