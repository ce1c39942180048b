-- What the calls of this crate answer: document 01, "Frame metadata (001) and packets".
pub mod Codes
pub mod Ids
pub mod Items
pub mod View
pub mod Steps
pub mod Writer
pub mod Answers
pub mod Cut
pub mod Calls
pub mod Theorems
