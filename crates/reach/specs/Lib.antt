pub mod Reaches
pub mod Order
pub mod Building
