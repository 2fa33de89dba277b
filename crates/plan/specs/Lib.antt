pub mod Check
pub mod Written
