-- Where a reading by piece stands, and the theorems of 02's K6.
pub mod Spelled
pub mod Sound
pub mod Standing
pub mod Steps
pub mod Final
pub mod Same
pub mod Repeats
pub mod Answered
pub mod Promised
