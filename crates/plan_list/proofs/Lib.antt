pub mod Tested
pub mod Counted
pub mod Order
pub mod Coded
pub mod Members
