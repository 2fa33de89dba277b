pub mod Parted
