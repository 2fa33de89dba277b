pub mod Seeking
pub mod Openings
