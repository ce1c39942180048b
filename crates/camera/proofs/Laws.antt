pub mod Record
pub mod Requests
pub mod Loading
pub mod Writing
