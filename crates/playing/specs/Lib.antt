pub mod Nights
pub mod Meeting
