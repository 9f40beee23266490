pub mod Source
pub mod Marks
pub mod Beside
pub mod Repaired
pub mod Turns
