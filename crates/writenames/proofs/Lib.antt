pub mod Naming
pub mod Heading
