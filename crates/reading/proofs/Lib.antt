pub mod Spans
pub mod Found
pub mod Rooms
pub mod Resume
