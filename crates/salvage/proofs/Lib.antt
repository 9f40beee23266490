-- Laws and theorems of the repair, and laws on its output.
pub mod Fills
pub mod Salvages
pub mod Kept
pub mod Sizes
pub mod Listed
pub mod Promised
pub mod Stores
pub mod Told
pub mod Sheet
