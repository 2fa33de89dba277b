pub mod Head
pub mod Past
