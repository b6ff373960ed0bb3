pub mod Callers
pub mod Same
pub mod Refused
pub mod Sound
pub mod Cases
pub mod Stopped
pub mod Astray
