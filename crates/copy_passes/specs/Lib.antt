pub mod Passes
pub mod Copied
