pub mod Encoding
pub mod Forms
pub mod Ascii
pub mod Sequence
pub mod Leads
