pub mod Runs
pub mod Steps
pub mod Tests
pub mod Accepted
pub mod Parameters
pub mod Passes
