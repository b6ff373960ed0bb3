pub mod Shape
pub mod Ids
pub mod Header
pub mod Save
pub mod Restore
pub mod Before
pub mod Moves
pub mod Held
