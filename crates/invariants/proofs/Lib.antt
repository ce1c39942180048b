-- Laws that `batch` and `demands` share, one topic to a file.
pub mod Laws
