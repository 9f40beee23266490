-- Laws that belong to no one function, and the theorems.
pub mod Stores
pub mod Walking
pub mod Outcomes
pub mod Readback
pub mod Placed
pub mod Whole
pub mod Layer
pub mod Sheet
pub mod Entered
pub mod SixthByte
