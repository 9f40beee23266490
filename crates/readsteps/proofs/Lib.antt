pub mod Runs
pub mod Letters
pub mod Links
pub mod States
pub mod Fields
pub mod Fronts
