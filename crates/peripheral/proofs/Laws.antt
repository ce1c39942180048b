pub mod Admission
pub mod Answers
pub mod Requests
