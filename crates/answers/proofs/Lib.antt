pub mod Lists
pub mod Rows
pub mod Effects
pub mod Copied
pub mod Signed
pub mod Refusals
