pub mod Rules
pub mod Varying
pub mod Kept
