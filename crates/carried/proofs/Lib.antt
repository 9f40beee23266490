pub mod Carried
pub mod Values
pub mod Bridge
pub mod Moved
pub mod Again
pub mod Writing
pub mod Promised
