pub mod Operations
pub mod promises
