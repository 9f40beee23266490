pub mod Round
pub mod Chains
pub mod Told
