pub mod Question
pub mod Alone
pub mod Promised
