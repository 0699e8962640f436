pub mod Values
pub mod Ranges
pub mod promises
pub mod code
