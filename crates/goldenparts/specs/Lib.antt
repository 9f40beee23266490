pub mod Forms
pub mod Spans
