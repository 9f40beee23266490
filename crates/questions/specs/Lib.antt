pub mod Lines
pub mod LittleEndian
pub mod Leaves
pub mod Floats
