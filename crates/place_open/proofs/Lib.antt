pub mod Above
pub mod Begin
pub mod Places
