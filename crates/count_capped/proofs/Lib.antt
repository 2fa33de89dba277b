pub mod Capped
pub mod Digits
