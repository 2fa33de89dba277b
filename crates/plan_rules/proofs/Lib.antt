pub mod ReadBack
pub mod Accepted
