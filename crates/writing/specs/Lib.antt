pub mod Writing
pub mod Canonical
pub mod Shape
pub mod Names
pub mod Steps
pub mod Answer
pub mod Unread
