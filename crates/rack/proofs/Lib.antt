pub mod Totals
pub mod Loads
