pub mod Wholes
pub mod Untouched
