-- Merging: what it gives, what the call answers, and what is stated of it.
pub mod Merging
pub mod Theorems
