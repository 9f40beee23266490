-- Readings that differ by a shift, then readings with slots in front, then both together for a value read on the way.
pub mod Raising
pub mod Shifted
pub mod Shifting
pub mod Kept
pub mod Onward
pub mod Agreeing
pub mod Lowering
pub mod Lowered
pub mod Span
pub mod Example
