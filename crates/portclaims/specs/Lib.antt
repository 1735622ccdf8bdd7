pub mod Awaited
pub mod Between
pub mod Held
pub mod Leading
pub mod Messages
pub mod OfferCount
pub mod Repeats
