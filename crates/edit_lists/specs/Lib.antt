pub mod Lists
pub mod Plan
pub mod Check
pub mod promises
pub mod code
