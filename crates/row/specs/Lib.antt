pub mod Fields
pub mod Changes
pub mod Rules
pub mod Wire
pub mod Moves
