pub mod Coverage
pub mod Class
pub mod Once
