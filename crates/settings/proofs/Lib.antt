pub mod Lookups
pub mod Puts
pub mod Loops
pub mod Whole
pub mod Tags
pub mod Promised
