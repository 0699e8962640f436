pub mod Extent
pub mod Found
pub mod Handing
pub mod Feeding
pub mod Blocks
pub mod RealTime
