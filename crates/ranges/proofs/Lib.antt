pub mod Below
pub mod Between
pub mod Steps
pub mod Runs
pub mod Passes
pub mod Found
pub mod Tested
pub mod Tables
