pub mod Number
pub mod Put
pub mod Front
pub mod Within
pub mod Words
