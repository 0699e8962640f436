pub mod Writing
pub mod code
