pub mod Fronts
pub mod Readings
pub mod Turns
