pub mod Nibbles
pub mod promises
