pub mod Bits
pub mod Loops
pub mod Answers
pub mod Built
pub mod Kth
pub mod Found
pub mod Promised
