pub mod Mixing
pub mod ByParts
pub mod NothingLoose
