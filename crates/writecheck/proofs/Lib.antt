pub mod Suited
pub mod Codes
