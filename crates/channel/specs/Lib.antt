pub mod Channel
pub mod Outcomes
