pub mod Puts
pub mod Wired
pub mod Changed
pub mod Kept
pub mod Moved
pub mod Exactly
pub mod Quoted
mod Examples
