pub mod Files
pub mod Said
pub mod promises
pub mod code
