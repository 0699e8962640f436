pub mod Done
pub mod Amounts
pub mod Withdrawn
