pub mod Equal
pub mod Pair
