pub mod Setting
pub mod Rewriting
pub mod Putting
pub mod Promised
