pub mod Commas
pub mod Numbered
