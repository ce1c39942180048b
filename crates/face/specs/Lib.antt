-- What document 01 says of face authentication: its endpoints, and GET's answers.
pub mod Limits
pub mod Answers
pub mod Theorems
