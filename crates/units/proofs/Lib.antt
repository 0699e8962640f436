pub mod Steps
pub mod Sent
pub mod Fed
pub mod Chains
pub mod Followed
