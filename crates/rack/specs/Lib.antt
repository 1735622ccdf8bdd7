pub mod Ports
pub mod Steps
pub mod Runs
