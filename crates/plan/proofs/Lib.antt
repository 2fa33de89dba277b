pub mod Parts
pub mod Checking
pub mod TrailerBytes
pub mod Sound
pub mod Prefix
pub mod Before
