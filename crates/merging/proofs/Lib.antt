-- Laws that several proofs share, one topic to a file; the theorems; a worked row.
pub mod Laws
pub mod Theorems
pub mod Examples
