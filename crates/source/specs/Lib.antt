pub mod States
pub mod Changes
pub mod Words
