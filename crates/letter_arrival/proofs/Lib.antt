pub mod Puts
pub mod Settles
pub mod Arrives
