pub mod Tests
pub mod Amounts
pub mod Laws
