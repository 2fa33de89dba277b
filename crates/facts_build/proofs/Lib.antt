pub mod Written
pub mod Ways
pub mod Held
pub mod Filling
pub mod Known
pub mod Cases
