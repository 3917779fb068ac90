pub mod Linking
pub mod Cutting
pub mod Picking
pub mod Counting
