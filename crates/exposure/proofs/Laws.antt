pub mod Bounds
pub mod Exposure
pub mod Item
