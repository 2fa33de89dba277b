pub mod Opening
pub mod Subtrees
pub mod Outcome
