-- What document 01 says of the snapshot of settings.
pub mod Encoding
