pub mod Cells
pub mod Counting
pub mod Adding
pub mod Promised
