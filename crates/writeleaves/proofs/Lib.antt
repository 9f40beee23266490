pub mod Leafing
pub mod Leading
