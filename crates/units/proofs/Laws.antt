pub mod Formed
pub mod Steps
