pub mod Starts
pub mod Index
