pub mod Row
pub mod Spells
pub mod Summary
