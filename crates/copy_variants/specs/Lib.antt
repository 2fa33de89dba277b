pub mod Visible
pub mod Variants
