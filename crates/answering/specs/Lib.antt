-- What document 01 says of a GET of a control, by profile and settings.
pub mod Answering
