pub mod Bytes
pub mod Stream
pub mod Feed
pub mod code
pub mod promises
