pub mod Edits
pub mod Left
pub mod Message
pub mod Writing
