pub mod Fields
pub mod Groups
pub mod NothingLoose
pub mod Example
pub mod LaidOut
pub mod LaidOutBytes
pub mod WrittenReadsBack
