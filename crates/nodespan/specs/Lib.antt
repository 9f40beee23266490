pub mod Header
pub mod Span
pub mod Walk
