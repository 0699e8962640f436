pub mod Rule
