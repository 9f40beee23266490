pub mod Handing
pub mod Splitting
pub mod Reading
pub mod Writing
pub mod Keeping
