-- Laws that belong to no one function.
pub mod Varints
pub mod Entries
pub mod Bytes
pub mod Shorts
