pub mod Layout
pub mod Feed
pub mod Letters
pub mod Message
pub mod Test
