pub mod Throttle
