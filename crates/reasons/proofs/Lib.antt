pub mod Reasons
pub mod AsWalk
pub mod Exactly
pub mod Explains
pub mod Told
