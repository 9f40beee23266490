pub mod Names
pub mod Groups
