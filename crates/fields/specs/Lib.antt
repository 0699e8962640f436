pub mod Fields
pub mod Parameters
pub mod promises
pub mod code
