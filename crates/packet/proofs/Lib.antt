pub mod Rules
pub mod Ways
pub mod Messages
pub mod Frame
pub mod Cut
pub mod Step
pub mod Bytes
pub mod Seen
pub mod Ceiling
pub mod Mend
pub mod Known
pub mod Verdicts
pub mod Keep
pub mod Numbers
pub mod Refused
pub mod Resume
mod Examples
