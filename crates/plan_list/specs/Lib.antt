pub mod Small
pub mod Listed
pub mod Order
pub mod Lines
