pub mod Printing
pub mod Promised
