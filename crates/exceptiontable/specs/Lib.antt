pub mod Entry
pub mod Reading
pub mod Writing
pub mod Promised
