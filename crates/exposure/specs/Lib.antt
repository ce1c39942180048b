-- What document 01 says of exposure compensation.
pub mod Exposure
pub mod Theorems
