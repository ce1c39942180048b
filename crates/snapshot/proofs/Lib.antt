-- Laws that several proofs share, one topic to a file, and the demands as theorems.
pub mod Laws
pub mod Theorems
pub mod Examples
