pub mod Followed
pub mod Carried
pub mod Spots
pub mod Ahead
pub mod CellSpots
