-- What the owner's demands say of the camera's calls, and document 01's rows for the bench camera as one table.
pub mod Calls
pub mod Runs
pub mod Cameras
pub mod Refusals
pub mod Answers
pub mod Sensor
pub mod Flags
pub mod Lists
pub mod Loading
pub mod Batches
pub mod Endpoints
pub mod Programs
pub mod Bench
pub mod Table
