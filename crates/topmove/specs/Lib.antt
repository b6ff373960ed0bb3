pub mod Moving
pub mod Line
