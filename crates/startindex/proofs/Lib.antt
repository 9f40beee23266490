pub mod Counts
pub mod Words
pub mod Blocks
pub mod Answers
