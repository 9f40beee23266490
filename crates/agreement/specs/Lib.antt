pub mod Agreement
pub mod Partly
