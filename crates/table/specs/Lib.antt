pub mod Memory
pub mod Index
pub mod Sorted
pub mod Board
pub mod Places
pub mod Rules
pub mod Wire
