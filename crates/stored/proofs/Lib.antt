pub mod Lengths
pub mod Old
pub mod New
pub mod BothWays
pub mod Example
