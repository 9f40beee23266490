pub mod Walk
pub mod Answer
pub mod Complete
pub mod FromEntries
