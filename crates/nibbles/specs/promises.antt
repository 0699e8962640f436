pub mod Inverse
pub mod Reduced
