pub mod Fields
pub mod Looking
pub mod Fitting
pub mod Promised
