pub mod Rules
pub mod Signs
pub mod Buses
pub mod Rule
pub mod Listing
pub mod Places
