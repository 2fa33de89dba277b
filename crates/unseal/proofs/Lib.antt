pub mod Unsealing
pub mod RoundTrip
