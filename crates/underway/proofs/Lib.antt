pub mod Under
pub mod Forms
pub mod Levels
