pub mod Meaning
pub mod Words
