pub mod Splits
pub mod promises
