pub mod Value
pub mod Storing
pub mod Judged
