pub mod Arrived
