pub mod Padded
pub mod Records
pub mod Lookups
