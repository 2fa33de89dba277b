pub mod Crumbs
pub mod Cells
pub mod Heights
pub mod Places
