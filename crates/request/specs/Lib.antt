-- Document 01, "Requests and the order of tests", as far as it holds for any unit.
pub mod Setup
pub mod Table
pub mod Answers
pub mod Reply
pub mod Tests
pub mod Requests
pub mod Theorems
