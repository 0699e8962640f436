pub mod Extent
pub mod Blocks
