-- What document 01 says of the settings of the five controls, whatever the calls that change them.
pub mod Held
pub mod Kept
pub mod Settings
pub mod Items
