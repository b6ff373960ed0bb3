pub mod Heads
pub mod Ways
pub mod Rounds
