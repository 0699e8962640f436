pub mod Shortest
pub mod Example
