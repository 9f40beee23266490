pub mod Line
pub mod Varint
pub mod Entry
pub mod Quick
pub mod Short
