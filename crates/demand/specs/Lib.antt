pub mod Calls
pub mod Demand
pub mod Misplaced
pub mod OnePlace
