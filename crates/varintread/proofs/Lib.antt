pub mod ReadLoop
pub mod Refusals
