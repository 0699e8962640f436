pub mod Followed
pub mod Chain
