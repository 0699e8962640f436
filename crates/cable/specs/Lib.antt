pub mod Cable
pub mod code
pub mod promises
