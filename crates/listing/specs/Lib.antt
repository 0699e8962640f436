pub mod Listing
pub mod promises
pub mod code
