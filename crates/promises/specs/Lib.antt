pub mod Calls
pub mod Demand1
pub mod Demand2
pub mod Equal
pub mod Asked
pub mod Demand3
pub mod Substance
pub mod Requests
