-- Laws on entries, rows and whole tables, and the theorem that the walk is a reading of the row.
pub mod Local
pub mod Extent
pub mod Shift
pub mod Turns
pub mod Walks
pub mod Chains
pub mod Joins
pub mod Going
