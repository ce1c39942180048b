-- What document 01 says of HDR.
pub mod Hdr
