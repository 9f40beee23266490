pub mod Numbers
pub mod Digits
pub mod Into
pub mod Alike
pub mod Judging
pub mod Coding
pub mod Unread
pub mod Sample
