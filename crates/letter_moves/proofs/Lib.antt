pub mod Valid
pub mod Inside
pub mod Holding
pub mod Stands
