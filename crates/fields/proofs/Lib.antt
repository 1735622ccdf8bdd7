pub mod ThenSome
pub mod Through
pub mod PortAlone
pub mod NothingLoose
