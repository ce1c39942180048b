pub mod Payload
pub mod Held
pub mod Entries
