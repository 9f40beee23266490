-- Laws on the end of a reading by piece and on a piece of one byte, as the code takes them.
pub mod Entering
pub mod Ends
pub mod Heads
pub mod ByByte
pub mod Cuts
