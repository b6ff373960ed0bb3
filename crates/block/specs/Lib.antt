pub mod Block
pub mod Shapes
