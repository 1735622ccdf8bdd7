pub mod Fields
pub mod Events
pub mod SetUps
pub mod Layout
