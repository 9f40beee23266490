pub mod Same
pub mod Searching
pub mod Finding
pub mod Saving
pub mod Growing
pub mod Standing
pub mod Promised
