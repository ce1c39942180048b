-- What document 01 says of a profile, and of a SET by the profile alone.
pub mod KnownControl
pub mod Profile
pub mod Items
