pub mod Lists
pub mod Table
pub mod Effect
pub mod Refusals
pub mod promises
pub mod code
