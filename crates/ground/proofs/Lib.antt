pub mod Laid
pub mod Parts
pub mod Rows
pub mod Settles
pub mod Table
