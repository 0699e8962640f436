pub mod Content
pub mod Counted
pub mod Judged
pub mod Heard
