pub mod Onward
pub mod Rows
