pub mod Profile
pub mod KnownControl
