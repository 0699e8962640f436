pub mod Units
pub mod promises
pub mod code
