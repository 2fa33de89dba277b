pub mod Parted
pub mod Inhabited
