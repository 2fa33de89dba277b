pub mod Unseal
