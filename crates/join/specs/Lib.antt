pub mod Whole
pub mod Join
pub mod Promised
