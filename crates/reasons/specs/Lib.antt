pub mod Reason
pub mod Says
pub mod Decided
pub mod Outcome
