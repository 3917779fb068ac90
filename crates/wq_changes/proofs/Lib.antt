pub mod Ranges
pub mod Lanes
pub mod Each
pub mod Exact
pub mod Circled
