pub mod Stack
pub mod Begin
