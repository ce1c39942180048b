-- What document 01 says of metadata.
pub mod Metadata
