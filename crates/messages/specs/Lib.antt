pub mod Kinds
pub mod Judge
pub mod Layout
pub mod promises
pub mod code
