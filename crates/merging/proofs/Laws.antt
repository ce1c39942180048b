pub mod Merging
pub mod Answers
pub mod Writing
pub mod Given
