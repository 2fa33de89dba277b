pub mod Decode
pub mod Rules
pub mod Names
pub mod ByKind
pub mod Narrow
