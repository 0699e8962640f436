pub mod Files
pub mod Lines
pub mod Whole
pub mod Told
pub mod Example
