pub mod More
pub mod Parts
