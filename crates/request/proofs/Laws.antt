pub mod Answers
pub mod Packed
pub mod Tests
pub mod Requests
pub mod Sets
pub mod Rooms
