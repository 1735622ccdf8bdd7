pub mod Answers
pub mod Endings
pub mod Keeping
pub mod PortAlone
