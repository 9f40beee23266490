pub mod Visit
pub mod Found
