pub mod Tokens
pub mod Tops
pub mod Made
pub mod Turns
pub mod Runs
