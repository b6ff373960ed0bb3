pub mod Endings
pub mod Puts
pub mod Sides
mod Examples
