pub mod Stroll
pub mod Printed
