pub mod Judging
pub mod Apart
pub mod Exact
pub mod Fielded
