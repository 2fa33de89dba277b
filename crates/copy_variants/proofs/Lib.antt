pub mod Shown
pub mod TakenOut
pub mod Table
pub mod Shapes
pub mod Fit
pub mod Values
pub mod Seen
