pub mod Inputs
pub mod Promised
