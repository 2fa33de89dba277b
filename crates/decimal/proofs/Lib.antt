pub mod Puts
pub mod Decimals
pub mod Next
pub mod Texts
