-- What document 01 says of throttle.
pub mod Throttle
