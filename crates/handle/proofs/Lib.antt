pub mod Ways
pub mod Rounds
pub mod Laid
pub mod Single
mod Examples
