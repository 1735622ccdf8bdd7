pub mod Meets
pub mod Sums
pub mod Kept
pub mod NothingLoose
