pub mod Judging
pub mod Testing
pub mod Fit
pub mod Cycles
pub mod Searching
pub mod Before
pub mod Narrow
