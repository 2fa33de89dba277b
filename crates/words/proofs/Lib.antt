pub mod Laws
pub mod Front
pub mod Within
pub mod Words
pub mod Parts
pub mod Library
