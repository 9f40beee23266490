pub mod Decimal
pub mod Promised
