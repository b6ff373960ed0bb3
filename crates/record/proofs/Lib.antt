pub mod Laid
pub mod Moved
pub mod Ways
pub mod Typed
pub mod NoZero
pub mod Rounds
pub mod Joined
pub mod Gaps
pub mod Sent
mod Examples
