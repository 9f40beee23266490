pub mod Taking
pub mod Moves
