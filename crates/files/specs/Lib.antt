pub mod Loading
pub mod Status
