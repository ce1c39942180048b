-- What document 01 says of the entries of a SET of face authentication.
pub mod Entries
pub mod Theorems
