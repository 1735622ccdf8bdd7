pub mod Power
pub mod Words
