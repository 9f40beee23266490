pub mod Walk
pub mod Turns
pub mod Outcomes
pub mod Ranks
pub mod Theorems
pub mod Examples
