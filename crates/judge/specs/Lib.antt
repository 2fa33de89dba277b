pub mod Judge
pub mod Tested
