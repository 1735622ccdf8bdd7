pub mod Digits
pub mod Rest
