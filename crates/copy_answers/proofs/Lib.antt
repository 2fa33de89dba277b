pub mod Alike
pub mod Sample
pub mod Inhabited
