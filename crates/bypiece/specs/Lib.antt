pub mod Facts
pub mod Byte
