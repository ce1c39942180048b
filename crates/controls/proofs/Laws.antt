pub mod Items
pub mod Controls
