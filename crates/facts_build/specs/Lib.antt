pub mod RuleFacts
pub mod Buildable
