pub mod Finishing
pub mod Unread
