pub mod Bytes
pub mod Data
pub mod Gathering
pub mod Places
pub mod Records
pub mod Spans
pub mod Verdicts
