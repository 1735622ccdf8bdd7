pub mod Checksum
pub mod Counts
