pub mod Prepares
