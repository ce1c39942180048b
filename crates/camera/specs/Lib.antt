-- What document 01 says of the camera record and of the calls that take it; last, the steps of the code.
pub mod Record
pub mod Outcomes
pub mod Requests
pub mod Loading
pub mod Writing
pub mod Calls
pub mod Steps
