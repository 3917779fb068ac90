pub mod Hanging
pub mod Holding
pub mod Saying
pub mod Telling
