pub mod Marks
pub mod Passing
pub mod Writing
pub mod Records
pub mod BothPasses
