pub mod Says
pub mod Tally
