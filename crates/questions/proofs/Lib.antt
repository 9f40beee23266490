pub mod Lines
pub mod LittleEndian
pub mod Wholes
pub mod Leaves
pub mod Floats
