pub mod Parts
pub mod Memory
pub mod Entering
pub mod Steps
pub mod Packets
pub mod Calls
pub mod Controls
