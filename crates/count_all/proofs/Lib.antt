pub mod Keeping
pub mod Places
pub mod ByRule
pub mod Passes
pub mod Meaning
pub mod Totals
