pub mod Behind
pub mod Reading
pub mod Moving
pub mod Appending
pub mod Promised
