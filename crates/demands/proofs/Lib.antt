-- The owner's demands on the camera, the laws under them, one topic to a file, and the claim of the table.
pub mod Laws
pub mod Refusals
pub mod Answers
pub mod Sensor
pub mod Flags
pub mod Lists
pub mod Loading
pub mod Batches
pub mod Endpoints
pub mod Programs
pub mod Table
