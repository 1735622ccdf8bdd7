pub mod Whole
pub mod Laid
