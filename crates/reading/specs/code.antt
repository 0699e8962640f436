pub mod Told
pub mod Rooms
