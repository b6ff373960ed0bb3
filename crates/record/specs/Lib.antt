pub mod Places
pub mod Record
