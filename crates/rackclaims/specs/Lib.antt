pub mod Wire
pub mod History
pub mod NightDesk
pub mod Leads
pub mod Verdicts
pub mod Told
