pub mod KeptFacts
pub mod Tracing
