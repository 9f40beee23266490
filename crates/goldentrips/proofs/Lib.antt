pub mod Shortened
pub mod Fronts
pub mod Lettering
pub mod Parting
pub mod Promised
