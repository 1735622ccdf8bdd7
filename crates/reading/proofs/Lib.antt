pub mod Fine
pub mod ReadsExactlyMessages
