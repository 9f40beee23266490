pub mod Lines
pub mod Promised
