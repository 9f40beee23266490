pub mod Answers
pub mod Longs
