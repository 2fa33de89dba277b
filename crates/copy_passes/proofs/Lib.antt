pub mod Marking
pub mod Numbering
pub mod Renaming
pub mod Reached
pub mod ThreePasses
pub mod Turns
