pub mod Classes
pub mod Behind
pub mod Headers
