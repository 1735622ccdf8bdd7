pub mod Objects
pub mod Offers
pub mod Requests
