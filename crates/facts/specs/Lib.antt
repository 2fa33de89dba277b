pub mod Facts
pub mod Build
pub mod Closes
