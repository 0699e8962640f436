pub mod Kept
pub mod Recorded
pub mod Spans
pub mod Calls
pub mod Steps
pub mod Cuts
pub mod Answers
