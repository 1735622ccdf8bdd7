pub mod Layout
pub mod Types
pub mod Header
pub mod Bytes
