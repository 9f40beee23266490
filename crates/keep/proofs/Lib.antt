pub mod Keeping
pub mod Sheets
