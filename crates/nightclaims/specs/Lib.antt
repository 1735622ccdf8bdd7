pub mod Pieces
pub mod Happened
pub mod Answered
pub mod InSupply
