pub mod Held
pub mod Kept
pub mod Requests
pub mod Replies
