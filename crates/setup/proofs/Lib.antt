pub mod Settings
pub mod Filled
