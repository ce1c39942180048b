pub mod Hdr
