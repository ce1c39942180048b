pub mod Kept
pub mod Items
