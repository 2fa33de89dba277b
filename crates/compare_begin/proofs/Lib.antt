pub mod Stacks
pub mod Runs
pub mod Holes
pub mod Begins
