-- Laws on what is held between pieces, and on what stands in a state.
pub mod Stores
pub mod Looks
