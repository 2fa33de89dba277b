pub mod Difference
pub mod Skips
pub mod Nodes
pub mod Stacks
pub mod Parts
