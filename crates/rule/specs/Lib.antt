pub mod Rule
pub mod Sound
pub mod Names
