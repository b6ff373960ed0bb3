pub mod Answers
pub mod Bools
pub mod Parts
pub mod Writes
pub mod Numbers
pub mod Same
pub mod Runs
pub mod Decimals
mod Examples
pub mod Rises
pub mod Leads
