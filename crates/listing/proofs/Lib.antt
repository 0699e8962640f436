pub mod Example
pub mod Flat
pub mod Joined
pub mod Lines
pub mod Steps
