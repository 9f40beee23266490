pub mod Value
pub mod Canonical
pub mod Extent
pub mod Order
pub mod Written
pub mod Proper
pub mod Meaning
