pub mod Refusals
pub mod Frame
pub mod Stream
pub mod Ceiling
pub mod Numbering
pub mod Table
pub mod Line
pub mod Session
