pub mod BothWays
pub mod Example
