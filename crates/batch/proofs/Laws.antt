pub mod Packing
pub mod Answers
pub mod Walking
pub mod Running
pub mod Measuring
pub mod Refusals
