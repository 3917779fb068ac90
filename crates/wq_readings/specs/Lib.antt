pub mod Decided
pub mod Needed
