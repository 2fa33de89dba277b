pub mod Follow
pub mod Spot
pub mod CellSpot
