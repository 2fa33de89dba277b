pub mod Linking
pub mod Pieces
