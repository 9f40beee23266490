pub mod Archive
pub mod Answers
pub mod Meeting
pub mod Promised
