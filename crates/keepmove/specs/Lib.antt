pub mod Moved
pub mod Laid
pub mod Parts
pub mod Down
