pub mod Salvage
pub mod Repair
pub mod Promised
