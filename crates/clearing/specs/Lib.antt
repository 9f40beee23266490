pub mod Lent
pub mod Refused
