pub mod Whole
pub mod Example
