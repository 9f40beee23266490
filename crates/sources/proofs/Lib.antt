pub mod Counting
pub mod Going
pub mod Bits
pub mod Long
pub mod Beside
pub mod Repaired
pub mod Turning
