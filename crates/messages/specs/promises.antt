pub mod Given
pub mod Numbers
pub mod Never
pub mod Described
pub mod OneNibble
pub mod Neighbours
