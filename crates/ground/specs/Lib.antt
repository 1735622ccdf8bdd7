pub mod Refusals
pub mod Buffers
pub mod Words
