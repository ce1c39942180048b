-- Laws that several proofs share, one topic to a file; and the theorems that specs/ states under the same names.
pub mod Laws
pub mod Splitting
pub mod Theorems
