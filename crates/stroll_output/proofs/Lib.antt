pub mod Answers
pub mod Printed
pub mod Strolls
pub mod Sample
