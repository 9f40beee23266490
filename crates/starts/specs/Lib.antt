pub mod Questions
pub mod Promised
