-- Request #102 of document 02: requests in a batch, their answers, and what a batch comes to.
pub mod Packing
pub mod Splitting
pub mod Answers
pub mod Refusals
pub mod Batch
pub mod Theorems
pub mod Steps
