pub mod Amounts
pub mod Layouts
pub mod Feeds
pub mod Table
pub mod Rounds
pub mod Verdicts
pub mod Typed
pub mod Ways
pub mod Widths
pub mod NoZero
pub mod Tested
pub mod Puts
mod Examples
