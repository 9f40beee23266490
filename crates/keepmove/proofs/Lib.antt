pub mod Gathering
pub mod Containers
pub mod Laying
pub mod Moving
pub mod Same
pub mod Again
pub mod Descending
