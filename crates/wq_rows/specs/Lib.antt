pub mod Packing
pub mod Stored
