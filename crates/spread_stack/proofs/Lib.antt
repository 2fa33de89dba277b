pub mod Fits
pub mod Turns
pub mod Stacks
pub mod Tasking
pub mod Rows
pub mod Runs
pub mod Begins
