pub mod Events
pub mod Runs
