pub mod Bytes
pub mod Limits
pub mod Text
pub mod Decimal
