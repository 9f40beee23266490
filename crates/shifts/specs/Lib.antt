pub mod Shift
pub mod Lower
