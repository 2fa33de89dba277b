pub mod Copy
pub mod Made
