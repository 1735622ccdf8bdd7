pub mod RoundTrip
pub mod Bytes
