pub mod Pieces
pub mod Steps
