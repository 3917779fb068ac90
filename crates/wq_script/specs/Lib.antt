pub mod Scripts
pub mod Acts
pub mod Crews
