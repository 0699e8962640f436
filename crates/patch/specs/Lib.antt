pub mod Patch
pub mod code
