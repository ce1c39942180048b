-- Request #101: the peripheral control unit of document 002, its record and the calls that take it; last, the steps of the code.
pub mod Selectors
pub mod Record
pub mod Outcomes
pub mod Values
pub mod Requests
pub mod Calls
pub mod Steps
