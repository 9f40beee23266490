pub mod Appended
pub mod Raised
