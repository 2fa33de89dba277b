pub mod Tokens
pub mod Nodes
pub mod Stacks
pub mod Parts
