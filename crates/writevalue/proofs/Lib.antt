pub mod Fronting
pub mod Opening
pub mod Coding
