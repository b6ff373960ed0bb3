pub mod Joins
mod Sums
mod Columns
pub mod Checks
pub mod Blocks
mod Examples
